pub mod Expansions
pub mod Reported
pub mod Wholes
pub mod Streams
