pub mod Owed
pub mod Wishes
