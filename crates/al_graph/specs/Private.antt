-- Terms that only contracts of private functions need. No definition of what the product means uses
-- them.
pub mod Finishing
pub mod Labelling
pub mod Marks
