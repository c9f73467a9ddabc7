-- The files of this folder.
pub mod Elements
pub mod Walks
