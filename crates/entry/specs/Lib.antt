pub mod Refusal
pub mod Key
pub mod Order
pub mod Entry
pub mod Meaning
