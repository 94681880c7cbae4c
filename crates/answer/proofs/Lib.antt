pub mod RespondLaws
pub mod AnsweredLaws
