-- What a command function leaves, and the codes of a reply's status.
pub mod Codes
pub mod Done
