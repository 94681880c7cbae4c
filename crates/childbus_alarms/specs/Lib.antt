-- What each call answers to C, and what a silence tells.
pub mod Silence
pub mod Code
pub mod Told
pub mod AlarmBytes
