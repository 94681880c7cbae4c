-- The parts of a byte layout.
pub mod Fields
