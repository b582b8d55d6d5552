pub mod Extra
pub mod Operands
pub mod Lent
pub mod Plain
pub mod Told
pub mod Whole
