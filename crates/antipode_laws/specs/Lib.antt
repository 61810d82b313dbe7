pub mod KnownValues
pub mod Laws
pub mod Recursion
pub mod Units
