pub mod Fronts
pub mod Bytes
pub mod Halves
