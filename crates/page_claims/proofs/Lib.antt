-- Proofs of W8's claims.
pub mod Sizes
pub mod Multiples
pub mod HandedIn
pub mod GoesOn
pub mod OfCode
pub mod WrongCases
