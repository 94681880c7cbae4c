-- The pages that an upload changes, and what they are to it.
pub mod ChangedPages
pub mod Claims
