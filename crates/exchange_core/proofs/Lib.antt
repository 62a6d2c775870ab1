pub mod Rankings
pub mod Mail
pub mod Calls
pub mod Legal
pub mod Members
pub mod Dues
pub mod InOrder
pub mod Rejections
pub mod Totals
pub mod Bounds
mod ListExamples
pub mod FirstBelow
pub mod Refusal
pub mod Shown
pub mod Accepts
pub mod Steps
pub mod Left
pub mod NoJam
pub mod Enabled
mod Notes
mod Rows
mod NoteCodes
mod Seats
mod Quiet
mod Counted
pub mod Told
