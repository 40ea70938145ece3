pub mod LineLaws
pub mod SummaryLaws
pub mod DigitLaws
pub mod SayLaws
pub mod GistLaws
pub mod ReadLaws
