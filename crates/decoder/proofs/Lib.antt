pub mod DecodeLaws
pub mod ReadsLaws
