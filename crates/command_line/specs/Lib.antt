pub mod Options
pub mod Line
