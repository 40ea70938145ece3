mod LockLaws
pub mod WayLaws
mod ReadingLaws
mod ReadLaws
mod ListenLaws
mod StoringLaws
mod PlacingKept
mod PassingLaws
mod WakeLaws
mod DecidingLaws
mod OpenedLaws
mod LookLaws
mod AdvanceLaws
mod AdvanceSteps
mod UsageLaws
mod PublishLaws
mod ServingLaws
mod StayLaws
