pub mod Theorem
pub mod Law
