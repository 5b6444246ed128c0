pub mod Refusal
pub mod SignalsPart
pub mod SoundSignals
