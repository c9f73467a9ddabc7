pub mod Reading
pub mod SameKind
