-- The tools under C names.
pub mod Names
