pub mod Limits
pub mod Lists
pub mod Sheets
pub mod Matches
