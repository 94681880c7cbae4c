-- What each call of the board answers to C, and every byte that it leaves.
pub mod BoardBytes
pub mod TallyCall
pub mod Kept
