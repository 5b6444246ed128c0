pub mod ChannelNumbers
pub mod Searches
pub mod Products
pub mod Nearest
pub mod Made
pub mod Munging
