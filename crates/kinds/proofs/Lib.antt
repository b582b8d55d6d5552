pub mod Bits
pub mod Exact
pub mod Lanes
pub mod Laws
