pub mod After
pub mod Fewer
pub mod Then
pub mod SessionsSound
