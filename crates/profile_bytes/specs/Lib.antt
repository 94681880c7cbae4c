-- The profile in bytes, and what both ways through them keep.
pub mod ProfileBytes
pub mod BothWays
