pub mod CutPlaces
pub mod Groups
pub mod InclusionsExist
pub mod SumsOver
