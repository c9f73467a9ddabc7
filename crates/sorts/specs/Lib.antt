-- The sorts of field: values and their texts, legality, standard forms, starting texts, tables. Assumes nothing.
pub mod Values
pub mod Sorts
pub mod Plans
pub mod Settings
pub mod Laws
