-- Laws of the profile in bytes.
pub mod Laws
pub mod BusLaws
