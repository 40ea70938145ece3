pub mod LeastLaws
pub mod ZeroLaws
pub mod WakeLaws
