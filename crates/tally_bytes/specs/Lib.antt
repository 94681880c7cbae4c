-- The tally in bytes, and what both ways through them keep.
pub mod TallyBytes
pub mod BothWays
