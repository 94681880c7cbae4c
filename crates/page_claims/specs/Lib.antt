-- W8, pages of 64 or 128 bytes: the sizes under a page, and states that are handed from one page to another.
pub mod Pages
pub mod OfCode
pub mod WrongPages
