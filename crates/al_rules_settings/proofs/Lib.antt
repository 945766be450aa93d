pub mod Inside
pub mod Joining
pub mod Places
pub mod Lying
mod RepeatedIds
mod Variables
