pub mod OneAnswer
pub mod Seen
