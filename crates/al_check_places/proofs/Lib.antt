pub mod Nodes
pub mod Scalars
pub mod Prefixes
pub mod Passed
pub mod Longest
