pub mod Status
pub mod Outcome
pub mod Told
pub mod Serving
pub mod Program
