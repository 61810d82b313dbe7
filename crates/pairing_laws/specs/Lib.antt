pub mod Adjoints
pub mod Duals
pub mod KnownPairings
pub mod Laws
pub mod PairedAlgebras
pub mod Sight
