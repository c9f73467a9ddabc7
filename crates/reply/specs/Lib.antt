pub mod Shown
pub mod Wrote
pub mod Lists
pub mod Linked
pub mod Told
pub mod Brief
