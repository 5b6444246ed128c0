pub mod Stopped
pub mod Told
pub mod Followed
pub mod Openings
pub mod Starts
pub mod Wholes
