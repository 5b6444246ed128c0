pub mod Accepting
pub mod Accepts
pub mod Law
pub mod Passed
pub mod ValidList
pub mod Steps
pub mod Questions
pub mod Testing
