pub mod EventSpans
pub mod NeedLemmas
pub mod FileLemmas
pub mod Lying
