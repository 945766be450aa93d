pub mod Meaning
pub mod Sites
pub mod Targets
pub mod Proofs
