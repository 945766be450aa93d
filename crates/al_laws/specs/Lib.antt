pub mod Documents
pub mod Expressions
pub mod Walks
