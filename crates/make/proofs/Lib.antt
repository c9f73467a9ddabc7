-- The lemmas of makes of record. Assumes nothing.
pub mod Names
