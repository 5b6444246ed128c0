pub mod Numbers
pub mod Parts
pub mod Printed
pub mod Readable
pub mod Cuts
pub mod Sources
pub mod CutOnce
