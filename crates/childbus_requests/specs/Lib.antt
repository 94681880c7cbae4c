-- What each request call of the master answers to C, and every byte that it leaves.
pub mod RequestBytes
