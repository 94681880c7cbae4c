-- Parts of lists of bytes.
pub mod Parts
