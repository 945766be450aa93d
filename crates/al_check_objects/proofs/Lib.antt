pub mod Numbers
pub mod FieldLists
pub mod InputLemmas
pub mod Values
