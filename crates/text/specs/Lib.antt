pub mod Buffer
pub mod Number
pub mod Signed
pub mod Frequency
pub mod Cuts
pub mod Fields
pub mod Laws
pub mod Writing
