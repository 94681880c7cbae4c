-- Demands 1 and 2 as laws a reader can find. Demand 3 is in the crate `ledger`.
pub mod Past
pub mod Acceptance
pub mod Untouched
pub mod Replies
