pub mod FirstNodes
pub mod ProductTrees
pub mod SearchTrees
