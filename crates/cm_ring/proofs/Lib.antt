pub mod AtEnd
pub mod InRow
pub mod Mungers
pub mod Pieces
pub mod Readers
pub mod Writers
