pub mod Changes
pub mod KnownTerms
pub mod Laws
pub mod Lifts
