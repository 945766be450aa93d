pub mod Types
pub mod Fused
pub mod Presence
pub mod FusedFields
pub mod Puts
pub mod Strings
pub mod TypeParts
pub mod Indexes
