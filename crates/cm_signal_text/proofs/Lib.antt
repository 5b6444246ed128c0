pub mod Parts
pub mod Records
pub mod Refusal
pub mod SignalsSound
