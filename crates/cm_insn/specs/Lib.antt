pub mod Bits
pub mod Insn
pub mod Kept
pub mod Law
pub mod Site
pub mod SiteView
pub mod Stays
