pub mod Entries
pub mod Grown
pub mod Progressions
pub mod Waves
