pub mod Filled
pub mod Input
pub mod Output
pub mod Parses
pub mod Question
