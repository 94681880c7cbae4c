-- An I²C read, where none of numbers 2 to 5 applies.
pub mod HandedOut
