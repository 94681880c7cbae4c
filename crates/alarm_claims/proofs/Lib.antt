-- Proofs of the claims.
pub mod NothingLost
