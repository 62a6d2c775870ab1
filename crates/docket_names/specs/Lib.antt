pub mod Words
pub mod NameKeys
pub mod Texts
pub mod Guesses
