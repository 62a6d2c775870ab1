pub mod Reading
pub mod Lines
pub mod RowText
pub mod Retrying
