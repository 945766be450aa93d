pub mod Numbers
pub mod PatternLemmas
