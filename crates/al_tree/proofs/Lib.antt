pub mod Dollars
pub mod Lists
pub mod Kept
pub mod KeyLemmas
pub mod Shapes
pub mod ShapeSpans
