-- Scripts of calls, and what running one leaves.
pub mod Script
