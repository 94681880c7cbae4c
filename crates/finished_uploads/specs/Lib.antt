-- Finished uploads: the claim, what may stand in one, the same of the code, and claims and boards that are wrong.
pub mod Uploads
pub mod Between
pub mod OfCode
pub mod Wrong
