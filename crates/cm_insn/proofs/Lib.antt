pub mod Back
pub mod BitsRead
pub mod Channels
pub mod Others
pub mod Rows
pub mod Words
