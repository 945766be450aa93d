pub mod Names
pub mod Scopes
pub mod Signatures
