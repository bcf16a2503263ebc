pub mod Handler
pub mod Asked
pub mod Answer
pub mod Request
pub mod Meaning
pub mod Overtaking
