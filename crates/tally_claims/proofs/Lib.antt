pub mod Counters
pub mod Chains
pub mod Ruled
pub mod OfCode
