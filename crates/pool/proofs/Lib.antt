-- The files of this folder.
pub mod Filled
pub mod Passing
