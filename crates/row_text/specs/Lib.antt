pub mod LineLimits
pub mod Lines
pub mod Read
