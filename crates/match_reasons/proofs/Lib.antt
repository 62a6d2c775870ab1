pub mod Ranks
mod Kept
mod Tallies
pub mod Firsts
mod PairsProof
pub mod HonestProof
pub mod RoomProof
