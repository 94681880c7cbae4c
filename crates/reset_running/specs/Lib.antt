-- The reset in a lent output.
pub mod Resets
