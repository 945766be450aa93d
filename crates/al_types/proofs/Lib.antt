pub mod FuseLaws
pub mod JoinedFields
pub mod StringFields
pub mod FieldsByName
pub mod Puts
pub mod GatheredFields
pub mod CoveredFields
