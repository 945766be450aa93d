-- Terms that only contracts of private functions need. No definition of what the product means uses
-- them.
pub mod LiteralViews
pub mod PlaceholderStates
pub mod PlaceholderViews
