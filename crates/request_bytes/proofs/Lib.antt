pub mod WriteLaws
pub mod LengthLaws
