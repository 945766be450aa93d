pub mod Texts
pub mod Names
pub mod Patterns
pub mod Schedules
pub mod Private
pub mod Rows
