pub mod Objects
pub mod Fixed
pub mod Inputs
pub mod Scalars
pub mod Matrix
pub mod Numbers
