pub mod AddedCodes
pub mod Laws
pub mod Merges
pub mod Spreads
