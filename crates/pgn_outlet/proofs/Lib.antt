pub mod CameLaws
mod EachLaws
pub mod KeptLaws
