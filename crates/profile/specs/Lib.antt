-- What a profile of the code says.
pub mod View
