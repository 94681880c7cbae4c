-- Laws behind the count of lost bytes.
pub mod LostLaws
