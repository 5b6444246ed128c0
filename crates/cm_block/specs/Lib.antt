pub mod Going
pub mod Whole
pub mod RunText
pub mod ExpandSession
pub mod StreamLaw
