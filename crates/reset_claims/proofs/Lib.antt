pub mod Written
pub mod Resets
pub mod Known
pub mod Again
pub mod OfCode
pub mod WrongCases
