pub mod Scripts
pub mod Following
