pub mod Above
pub mod Words
