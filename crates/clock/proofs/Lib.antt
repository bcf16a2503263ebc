pub mod Steps
pub mod Rising
pub mod Calls
