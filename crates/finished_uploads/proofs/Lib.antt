pub mod Anew
pub mod Traces
pub mod Gathered
pub mod Stored
pub mod OfCode
pub mod WrongCases
