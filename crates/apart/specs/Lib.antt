pub mod Testing
pub mod Verdicts
pub mod Laws
