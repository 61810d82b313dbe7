pub mod Classes
pub mod Coproducts
pub mod FewPairs
pub mod Products
pub mod TreeProducts
pub mod UpperRule
pub mod UpperSums
