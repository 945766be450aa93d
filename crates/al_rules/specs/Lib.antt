pub mod Names
pub mod Events
pub mod Private
pub mod Needs
pub mod Rules
pub mod Inside
pub mod Rows
