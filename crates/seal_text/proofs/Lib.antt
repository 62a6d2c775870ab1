pub mod Steps
pub mod LeafFacts
pub mod RecordFacts
pub mod TextFacts
pub mod ReceiptFacts
pub mod ServeFacts
pub mod ReadingFacts
pub mod OpenFacts
pub mod TextLaw
mod CompareFacts
