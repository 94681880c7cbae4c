pub mod Pages
pub mod Counts
