pub mod AddedCodes
pub mod Convolutions
pub mod Merges
pub mod Patterns
pub mod SpreadParts
pub mod Spreads
