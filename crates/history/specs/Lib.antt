pub mod Book
pub mod History
pub mod Events
pub mod AfterPurge
pub mod Returning
pub mod Passing
