pub mod Written
pub mod Opening
