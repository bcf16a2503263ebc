pub mod Cut
pub mod List
pub mod Meaning
