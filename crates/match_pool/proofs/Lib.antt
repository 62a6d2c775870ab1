pub mod OutOfStep
pub mod Rows
pub mod Runs
pub mod Walk
pub mod WorkerCounts
