pub mod Followed
pub mod Refused
pub mod Unreserved
pub mod Meets
pub mod Resets
pub mod Tallies
pub mod Pages
pub mod Uploads
