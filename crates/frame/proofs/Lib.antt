pub mod SealLaws
pub mod ReplyLaws
