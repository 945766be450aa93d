pub mod Words
pub mod Names
pub mod Ids
pub mod Commands
pub mod Matrix
pub mod Settings
pub mod Views
