-- Terms that only contracts of private functions need. No definition of what the product means uses
-- them.
pub mod Lists
pub mod Edits
pub mod Graphs
pub mod Printing
