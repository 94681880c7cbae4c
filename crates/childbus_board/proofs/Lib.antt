-- Laws of the C boundary, for the board.
pub mod ForeignLaws
pub mod BoardLaws
pub mod KeptLaws
