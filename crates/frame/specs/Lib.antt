pub mod Seal
pub mod Reply
