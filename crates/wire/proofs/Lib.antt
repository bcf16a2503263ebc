pub mod Tests
pub mod Fill
pub mod Number
pub mod Fields
pub mod Order
pub mod Compared
pub mod Zeros
pub mod Writing
