-- Laws of the view that crates above cite.
pub mod Laws
