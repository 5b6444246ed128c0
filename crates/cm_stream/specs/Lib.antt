pub mod Appended
pub mod Merging
pub mod Polled
pub mod Scans
pub mod Step
pub mod Stream
pub mod Merges
