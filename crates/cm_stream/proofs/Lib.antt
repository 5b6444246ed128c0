pub mod Appends
pub mod Coming
pub mod Cuts
pub mod Merged
pub mod Rounds
pub mod Streams
pub mod Merges
