-- Data of worked examples.
pub mod Hub
pub mod Layout
pub mod Words
pub mod Wordhub
pub mod Outlet
pub mod Session
pub mod Seats
pub mod Wire
pub mod Service
pub mod Live
pub mod Run
