pub mod WalkLaws
pub mod OneLineLaws
pub mod MarkLaws
pub mod SortedLaws
pub mod ExampleLaws
