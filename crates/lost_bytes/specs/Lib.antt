-- Bytes that wait, and bytes that are lost.
pub mod Lost
