pub mod Comparing
pub mod Right
