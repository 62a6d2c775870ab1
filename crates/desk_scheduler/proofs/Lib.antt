pub mod Listed
pub mod QueueRows
pub mod Queues
pub mod Waiting
