pub mod Layout
pub mod Image
pub mod Slot
pub mod Check
pub mod Meaning
