-- The settings and records that the makes hold alike. Assumes nothing.
pub mod Name
pub mod NameLaws
pub mod Scheme
pub mod SchemeLaws
pub mod Site
pub mod Group
pub mod Trunk
pub mod Keeps
pub mod Named
pub mod NamedLaws
pub mod Records
pub mod RecordLaws
