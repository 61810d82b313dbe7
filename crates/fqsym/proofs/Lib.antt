pub mod Changes
pub mod Coproducts
pub mod Indices
pub mod Products
pub mod PushedCuts
pub mod RulesExist
