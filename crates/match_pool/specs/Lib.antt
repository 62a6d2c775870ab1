pub mod Compare
pub mod Done
pub mod Exchange
pub mod Rooms
pub mod RunState
pub mod Seat
