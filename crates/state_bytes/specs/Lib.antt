-- The state in bytes, and what both ways through them keep.
pub mod StateBytes
pub mod BothWays
