pub mod Reports
pub mod Audits
mod CountRows
