pub mod Listing
pub mod Report
pub mod Loads
pub mod Replay
pub mod WorkerCounts
pub mod Result
