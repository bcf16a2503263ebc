pub mod Words
pub mod Clock
pub mod Frame
pub mod Store
pub mod Handle
pub mod Meaning
