pub mod AddedElements
pub mod Classes
pub mod FundamentalProducts
pub mod Laws
pub mod Products
pub mod Ribbons
pub mod TableauCuts
pub mod TreeCuts
