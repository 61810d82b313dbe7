pub mod Laws
pub mod Representatives
