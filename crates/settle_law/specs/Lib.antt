pub mod Orderly
pub mod ListLaws
pub mod Stable
pub mod SettledLaws
