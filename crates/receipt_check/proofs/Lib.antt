pub mod Steps
pub mod Firsts
mod PairFacts
mod FolderFacts
mod TextFacts
mod RowFacts
mod ShownFacts
mod KeptFacts
mod NamedFacts
mod FieldFacts
pub mod CleanFacts
pub mod GoodFacts
pub mod ListsFacts
