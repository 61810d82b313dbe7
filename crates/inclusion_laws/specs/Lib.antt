pub mod DescentsOfIndices
pub mod CommutingImages
pub mod Inclusions
pub mod KnownValues
pub mod Laws
