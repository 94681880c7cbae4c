-- A law of tests, which crates above cite too.
pub mod Laws
