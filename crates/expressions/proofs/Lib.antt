pub mod Bounds
pub mod Laws
pub mod Operands
pub mod Items
pub mod Steps
