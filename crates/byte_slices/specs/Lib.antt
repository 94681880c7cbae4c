-- Numbers in bytes.
pub mod Four
