pub mod Hashes
pub mod Tree
pub mod SealLaws
