pub mod Answer
pub mod Exact
