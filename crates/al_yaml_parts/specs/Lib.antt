pub mod Stacks
pub mod Answers
pub mod BlockReads
pub mod Files
pub mod FlowReads
pub mod Places
pub mod Reads
pub mod Private
