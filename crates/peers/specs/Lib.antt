pub mod Row
pub mod Table
pub mod Admitted
pub mod Event
pub mod Meaning
