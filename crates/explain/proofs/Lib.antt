pub mod Seeing
pub mod OneWalk
pub mod Winning
pub mod Walking
pub mod Holding
pub mod Reasons
pub mod Refusals
pub mod Answering
