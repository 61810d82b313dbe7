pub mod CodesOfTrees
pub mod GreatestPlaces
pub mod GrownTrees
pub mod ProductCodes
pub mod RootPlaces
pub mod TreeParts
pub mod UpperPairs
