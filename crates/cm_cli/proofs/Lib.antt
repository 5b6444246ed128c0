pub mod Ends
pub mod Headlines
pub mod Served
pub mod Tests
