pub mod Heard
pub mod Desks
pub mod Programmes
pub mod Residents
