pub mod Scan
pub mod Sound
pub mod Answers
pub mod Refused
pub mod Soundness
pub mod OtherRows
pub mod Ticked
pub mod Flags
