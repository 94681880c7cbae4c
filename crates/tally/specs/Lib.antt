-- The tally of received frames.
pub mod Tally
