pub mod Report
pub mod Answer
pub mod Serving
