mod SlotLaws
mod PartLaws
pub mod MergedLaws
pub mod BareLaws
pub mod FieldLaws
pub mod OneLineLaws
pub mod NumberLaws
pub mod LineLaws
pub mod ReadableLaws
pub mod SeenLaws
pub mod ComesLaws
pub mod ShownLaws
pub mod BlameLaws
pub mod GoesOnLaws
pub mod WholeLaws
