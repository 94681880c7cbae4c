-- Laws of the state in bytes.
pub mod FlagLaws
pub mod Laws
