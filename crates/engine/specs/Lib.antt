pub mod View
pub mod Gives
pub mod Chains
