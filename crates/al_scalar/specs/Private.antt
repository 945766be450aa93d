-- Terms that only contracts of private functions need. No definition of what the product means uses
-- them.
pub mod BlockRead
pub mod Contract
pub mod Folding
pub mod Forms
pub mod PlainLines
pub mod QuotedRead
pub mod Reads
pub mod Segments
