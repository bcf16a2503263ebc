pub mod Crc32c
pub mod Table
pub mod Fmix32
pub mod Meaning
