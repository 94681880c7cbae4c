-- A law of last replies.
pub mod Laws
