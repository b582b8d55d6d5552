pub mod Decimal
pub mod Texts
