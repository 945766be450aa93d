-- Terms that only contracts of private functions need. No definition of what the product means uses
-- them.
pub mod Puts
pub mod Kept
pub mod Turns
pub mod Endings
pub mod Reasons
