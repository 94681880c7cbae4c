-- Laws of an upload: a part of accepted bytes, and a commit, by what the code holds.
pub mod Turns
