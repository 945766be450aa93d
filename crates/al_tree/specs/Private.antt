-- Terms that only contracts of private functions need.
pub mod Demands
