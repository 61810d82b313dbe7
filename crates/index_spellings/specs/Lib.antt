pub mod Indices
pub mod Items
pub mod KeptRows
pub mod Laws
pub mod Spellings
pub mod Texts
pub mod TreeCodes
