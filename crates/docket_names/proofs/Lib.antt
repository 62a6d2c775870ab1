pub mod WordFacts
pub mod FourFacts
pub mod NameKeyFacts
pub mod NameFacts
pub mod TextFacts
pub mod GuessFacts
pub mod MemberFacts
