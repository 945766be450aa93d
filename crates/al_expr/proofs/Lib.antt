pub mod TreeViews
pub mod Firsts
pub mod Added
pub mod Contexts
pub mod ScalarsFused
