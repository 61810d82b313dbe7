pub mod Laws
pub mod SearchTrees
pub mod TreeProducts
pub mod UpperParts
