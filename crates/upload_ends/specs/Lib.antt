-- How an upload ended.
pub mod Ends
