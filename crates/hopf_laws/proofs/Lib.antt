pub mod Scalars
pub mod Uniqueness
