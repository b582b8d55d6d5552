pub mod Answer
pub mod Checks
