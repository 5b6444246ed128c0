pub mod Forms
pub mod Instructions
pub mod Law
pub mod Limits
pub mod SessionPart
