-- Laws behind the alarms at the boundary.
pub mod AlarmLaws
pub mod SilenceLaws
pub mod ToldLaws
