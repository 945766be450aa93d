pub mod Paths
pub mod Availability
pub mod Ways
pub mod Positions
pub mod Places
pub mod Laws
pub mod Private
