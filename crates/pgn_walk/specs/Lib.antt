pub mod Standing
pub mod Steps
pub mod Same
pub mod Pairs
pub mod Evidence
pub mod Basis
