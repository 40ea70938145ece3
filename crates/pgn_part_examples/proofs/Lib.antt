-- Why examples are met, and why they are refused.
pub mod HubLemmas
pub mod LayoutSteps
pub mod WordSteps
pub mod WordhubCases
pub mod OutletLaws
pub mod SessionLemmas
pub mod SeatLaws
pub mod WireLaws
pub mod ServiceLaws
pub mod LiveLaws
