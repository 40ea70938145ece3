pub mod KeptLemmas
pub mod CountLaws
pub mod StepLaws
pub mod OnlyLaws
