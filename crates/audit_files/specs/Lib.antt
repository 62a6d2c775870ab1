pub mod Place
pub mod Rows
pub mod Answer
pub mod Line
pub mod Loading
pub mod Status
pub mod Program
