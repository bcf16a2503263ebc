pub mod Order
pub mod Accept
pub mod EntryOrder
pub mod Numbers
pub mod Fields
