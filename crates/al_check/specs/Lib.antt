pub mod FileFaults
pub mod Sites
pub mod Reading
pub mod Calling
pub mod Units
pub mod Linting
pub mod Proofs
