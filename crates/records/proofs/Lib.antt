pub mod ReadFacts
pub mod LineFacts
pub mod RoundFacts
pub mod SplitFacts
pub mod RowTextFacts
