pub mod Handed
pub mod Held
pub mod Counts
pub mod State
pub mod StateView
pub mod Law
