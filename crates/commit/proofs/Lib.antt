-- Laws of an upload and the flash.
pub mod Laws
