pub mod Answers
pub mod Convolutions
pub mod Gathering
pub mod Laws
pub mod Operations
pub mod ReadingOperations
