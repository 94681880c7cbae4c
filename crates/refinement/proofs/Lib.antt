pub mod Observed
pub mod Kept
pub mod Unreserved
pub mod Meets
