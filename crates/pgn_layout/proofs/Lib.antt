pub mod RunLaws
pub mod PlanLaws
pub mod BatchLaws
pub mod FillerLaws
pub mod PlacingLaws
pub mod StatusLaws
