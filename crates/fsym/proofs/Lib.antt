pub mod ClassLists
pub mod CodeTests
pub mod Coproducts
pub mod GrownWords
pub mod Indices
pub mod Products
pub mod PushedCuts
