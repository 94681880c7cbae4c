-- What a counted board call promises.
pub mod Tallied
