pub mod ClassCuts
pub mod KnownCuts
pub mod Laws
