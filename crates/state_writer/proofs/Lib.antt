-- Laws of what is written of a state.
pub mod Laws
