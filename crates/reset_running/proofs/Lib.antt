pub mod ResetLaws
