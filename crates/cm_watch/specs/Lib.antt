pub mod Opened
pub mod Watched
pub mod Told
pub mod Watching
pub mod Whole
pub mod Woken
pub mod Places
