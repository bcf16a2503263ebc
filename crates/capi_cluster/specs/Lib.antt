pub mod Words
pub mod Peers
pub mod Ring
pub mod Meaning
