pub mod Fields
pub mod Envelopes
pub mod Bodies
pub mod ByType
pub mod Checks
pub mod Answers
pub mod Buffers
pub mod RoundTrips
