pub mod Evaluations
pub mod Interleaving
pub mod Sizes
