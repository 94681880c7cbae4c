-- The two halves fit: what the master asks is what the board does, and what the board answers is what the master reads.
pub mod Sending
pub mod Understood
pub mod ReadBack
pub mod Exchanges
pub mod Longest
pub mod UploadRoundtrip
