pub mod PlaceLaws
pub mod NextLaws
pub mod DueLaws
pub mod WatchLaws
pub mod SendLaws
pub mod ListLaws
