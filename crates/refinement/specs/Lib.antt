-- Calls of the code as they happened, and the demands of them.
pub mod Happened
pub mod Met
