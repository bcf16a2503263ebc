pub mod Xor
pub mod Linear
pub mod Words
pub mod Loops
pub mod Rows
pub mod Bounds
pub mod ByTable
pub mod Product
