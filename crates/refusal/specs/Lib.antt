-- What a check of a call answers.
pub mod Checks
