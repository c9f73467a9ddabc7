-- The makes of record: what one fixes, and the rules for it. Assumes nothing.
pub mod Data
pub mod Shapes
pub mod Rules
