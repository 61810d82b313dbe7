pub mod AddedPairs
pub mod Coproducts
pub mod KnownCuts
pub mod Laws
pub mod ValueCuts
