-- Laws of a refusal.
pub mod Laws
