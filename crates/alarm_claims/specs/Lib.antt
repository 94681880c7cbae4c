-- The alarms and the rules' board.
pub mod Claims
