pub mod EndLemmas
pub mod Places
pub mod Inside
pub mod Plain
