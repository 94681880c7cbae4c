-- Programs to try against the demands: boards that are right but for one named error.
pub mod Variations
pub mod WrongBoards
