pub mod Asking
pub mod Simple
