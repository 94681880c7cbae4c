-- W3's claims on the tally: over any board that keeps one, of the code, and boards that count wrongly.
pub mod Counting
pub mod OfCode
pub mod WrongTallies
