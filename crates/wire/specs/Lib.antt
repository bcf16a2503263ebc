pub mod Number
pub mod Fill
pub mod Order
pub mod Meaning
