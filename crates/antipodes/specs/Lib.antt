pub mod Laws
pub mod Subtracting
