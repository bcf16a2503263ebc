pub mod Best
pub mod Live
pub mod BookLaws
pub mod StoreAgrees
pub mod AfterPurge
pub mod History
pub mod Returning
pub mod Passing
