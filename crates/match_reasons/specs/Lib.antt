pub mod Listed
pub mod Reason
pub mod Pairs
