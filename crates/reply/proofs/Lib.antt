pub mod Joins
pub mod Types
