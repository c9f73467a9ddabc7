-- The files of this folder.
pub mod Numbers
pub mod Keeps
pub mod Counts
pub mod Seen
pub mod Added
pub mod Removed
pub mod Written
pub mod Homes
pub mod Moves
pub mod Steps
pub mod Cleared
pub mod Found
pub mod Opened
pub mod Walks
pub mod LawsHold
