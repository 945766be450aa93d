-- Terms that only contracts of private functions need. No definition of what the product means uses
-- them.
pub mod BlockFrames
pub mod FlowAnswers
pub mod FlowFrames
pub mod Frames
pub mod Lying
pub mod Nested
