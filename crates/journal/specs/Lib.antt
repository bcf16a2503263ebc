pub mod Journal
pub mod Meaning
