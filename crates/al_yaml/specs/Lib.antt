pub mod Contract
pub mod Private
