pub mod Command
pub mod CommandText
pub mod Entry
pub mod ListText
pub mod PrintedReads
pub mod View
