pub mod Computes
pub mod Ends
pub mod ExamplesHold
pub mod Pieces
pub mod Within
