pub mod Unreserved
pub mod Moved
