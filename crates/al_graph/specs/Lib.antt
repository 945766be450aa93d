pub mod Graphs
pub mod Within
pub mod Private
