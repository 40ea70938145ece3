pub mod CameLaws
pub mod LiveLaws
mod PlayLaws
pub mod RoundLaws
mod RowLaws
mod TellLaws
mod WorkLaws
pub mod WriteLaws
