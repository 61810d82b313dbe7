pub mod PairSums
pub mod Places
pub mod Shapes
pub mod Sizes
