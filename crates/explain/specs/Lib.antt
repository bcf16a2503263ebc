pub mod Winner
pub mod Reason
pub mod Explain
pub mod Walk
pub mod Meaning
