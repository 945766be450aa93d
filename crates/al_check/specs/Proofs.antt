-- Proofs of the laws that an implementation of a trait names: a file of `src/` takes names from
-- `specs/` alone.
pub mod Laws
