-- What reading text means, and the hash.
pub mod Counts
pub mod Hash
pub mod Read
