-- Laws of byte layouts, for the crates above.
pub mod Laws
pub mod Clipping
