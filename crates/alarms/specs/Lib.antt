-- Silence, and a finalize that erased nothing.
pub mod Alarms
