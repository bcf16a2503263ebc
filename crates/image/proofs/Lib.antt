pub mod Fields
pub mod SlotLaws
pub mod ImageLaws
pub mod Sealing
pub mod Soundness
pub mod Writing
