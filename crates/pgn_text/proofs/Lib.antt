pub mod PutsLaws
pub mod LineLaws
pub mod DoublingLaws
pub mod DigitsLaws
