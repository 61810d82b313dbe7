pub mod Classes
pub mod Conversions
pub mod FiniteTestLaws
pub mod FiniteTests
pub mod KnownSeparations
pub mod Laws
pub mod Scans
pub mod Separation
