-- What each reply call of the master answers to C.
pub mod ReplyBytes
