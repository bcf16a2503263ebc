pub mod Bytes
pub mod Clocks
pub mod Frames
pub mod Stores
pub mod Places
pub mod Handles
pub mod Halves
pub mod Rules
