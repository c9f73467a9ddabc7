-- The lemmas of the sorts of field. Assumes nothing.
pub mod Signs
pub mod Waves
pub mod SortLaws
pub mod PlanLaws
pub mod Putting
