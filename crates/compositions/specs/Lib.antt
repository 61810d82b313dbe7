pub mod Conjugates
pub mod Growth
pub mod Laws
pub mod QuasiShuffles
pub mod Sizes
