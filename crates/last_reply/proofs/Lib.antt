-- A law of reads.
pub mod Laws
