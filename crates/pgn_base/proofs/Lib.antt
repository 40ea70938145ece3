pub mod OutsideLaws
mod FaultLaws
