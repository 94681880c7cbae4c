-- W4: the reset for a running application, and that no bootloader is taken for one.
pub mod Running
pub mod OfCode
pub mod WrongResets
