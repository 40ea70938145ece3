pub mod FieldLaws
pub mod LineLaws
pub mod AnswerLaws
pub mod QuotedLaws
pub mod FamilyLaws
pub mod PartLaws
pub mod AnswerParts
pub mod OnceLaws
