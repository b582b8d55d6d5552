pub mod Kept
pub mod Appended
pub mod SlotLimits
