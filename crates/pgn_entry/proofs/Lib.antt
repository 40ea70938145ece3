pub mod NumberLaws
pub mod SplitLaws
pub mod BodyLaws
pub mod HeadLaws
pub mod BeginsLaws
pub mod AnswerLaws
pub mod PieceReads
pub mod CellLaws
