pub mod Pieces
pub mod Fed
mod Sources
pub mod AtEnd
pub mod Accepted
pub mod Rings
pub mod Woken
pub mod Served
