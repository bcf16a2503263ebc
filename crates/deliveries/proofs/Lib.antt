pub mod Cutting
pub mod Runs
pub mod Lists
