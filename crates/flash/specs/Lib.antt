-- What a commit of bytes to lent flash does.
pub mod Committed
