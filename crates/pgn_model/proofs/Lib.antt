pub mod WalkLaws
pub mod CarriedLaws
pub mod GrowingLaws
pub mod NextLineLaws
pub mod TextLines
