-- The files of this folder.
pub mod Entry
pub mod Rows
pub mod Blocks
pub mod Kept
pub mod Tables
pub mod View
pub mod Walking
pub mod Coming
pub mod Laws
