pub mod Numbers
pub mod Line
