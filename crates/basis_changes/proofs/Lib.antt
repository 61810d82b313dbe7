pub mod ChangesBetween
pub mod ChangesExist
