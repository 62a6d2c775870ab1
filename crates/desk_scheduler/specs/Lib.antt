pub mod Desks
pub mod Schedule
pub mod Shift
pub mod Turns
pub mod Waits
