pub mod Roles
pub mod Samples
pub mod Seated
