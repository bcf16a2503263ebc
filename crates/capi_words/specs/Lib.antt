pub mod Result
pub mod Words
pub mod Meaning
