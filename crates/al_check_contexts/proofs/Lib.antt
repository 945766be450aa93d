pub mod Found
pub mod Kept
pub mod TableLemmas
pub mod StepLemmas
pub mod JobLemmas
pub mod Environments
