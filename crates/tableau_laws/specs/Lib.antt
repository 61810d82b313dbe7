pub mod Intervals
pub mod Knuth
pub mod KnownTableaux
pub mod LatticeWords
pub mod Laws
pub mod NumberedRows
