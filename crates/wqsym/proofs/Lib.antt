pub mod Coproducts
pub mod Indices
pub mod MergeLists
pub mod Products
