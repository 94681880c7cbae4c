-- What a state of the code says, and what a head says with any two buffers.
pub mod View
pub mod Heads
