pub mod Calls
pub mod Holders
pub mod Moves
pub mod Opening
pub mod Places
pub mod Seats
pub mod Stepping
