pub mod Bytes
pub mod Rows
pub mod Events
pub mod Rings
pub mod Halves
