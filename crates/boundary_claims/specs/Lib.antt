-- Calls of the C boundary one after the other, and the demands of them.
pub mod Calls
pub mod Met
pub mod Resets
pub mod Tallies
pub mod Pages
pub mod Uploads
