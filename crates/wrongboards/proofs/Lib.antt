pub mod FirstAnswer
pub mod Computing
pub mod Cases
pub mod VariationLaws
