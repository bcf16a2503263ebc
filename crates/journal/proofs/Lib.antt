pub mod Cutting
pub mod Pieces
pub mod Records
