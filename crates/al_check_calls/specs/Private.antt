-- Terms that only contracts of private functions need. No definition of what the product means uses
-- them.
pub mod Comparing
pub mod ComparisonViews
pub mod KnownLists
