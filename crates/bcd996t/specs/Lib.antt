-- The make BCD996T: its settings and its table of fields. Assumes nothing.
pub mod System
pub mod Channel
pub mod Talkgroup
pub mod Keeps
pub mod Table
