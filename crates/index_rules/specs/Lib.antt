pub mod Changes
pub mod Laws
pub mod Lifting
pub mod Lifts
pub mod PushedTerms
pub mod Rules
pub mod SignedSums
pub mod Spaces
