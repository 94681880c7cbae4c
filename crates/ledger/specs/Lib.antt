-- The ledger and the claims over every list of calls.
pub mod Ledger
pub mod Calls
pub mod Claim
pub mod Reached
