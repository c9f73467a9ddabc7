pub mod Bounds
pub mod Holdings
pub mod Stores
pub mod Fields
