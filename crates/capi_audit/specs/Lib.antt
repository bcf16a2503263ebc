pub mod Audit
pub mod Meaning
