pub mod Faults
pub mod Status
pub mod Ends
pub mod Flags
pub mod Loading
