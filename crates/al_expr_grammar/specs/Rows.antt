-- Terms for worked rows: small files and their trees, by hand. No definition uses them.
pub mod Chunks
pub mod Tokens
pub mod Trees
