-- The meaning of the protocol, in document 01's order. Start at `Profile`; `Board` puts the parts together.
pub mod Bytes
pub mod Buses
pub mod Profile
pub mod State
pub mod Commit
pub mod CheckSums
pub mod Numbers
pub mod Frames
pub mod Responses
pub mod Commands
pub mod Board
pub mod Examples
pub mod Master
