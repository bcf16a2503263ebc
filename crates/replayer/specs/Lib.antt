pub mod Replies
pub mod Advance
pub mod Meaning
