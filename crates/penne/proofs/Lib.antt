pub mod Promises
pub mod Entries
pub mod Words
pub mod Stars
