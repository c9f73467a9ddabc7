pub mod Steps
pub mod Texts
pub mod Signs
pub mod Pieces
pub mod Puts
