pub mod Closing
pub mod Orderliness
pub mod EventCount
pub mod Going
pub mod Places
pub mod Counting
pub mod Placements
pub mod NeverRejects
pub mod AtClose
pub mod SameResidents
pub mod FromLegal
pub mod Settles
pub mod OneSettled
pub mod HasSettled
mod StableExamples
