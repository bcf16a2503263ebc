pub mod Clock
pub mod Answer
pub mod Meaning
pub mod Calls
