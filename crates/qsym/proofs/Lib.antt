pub mod Changes
pub mod CutCodes
pub mod Growth
pub mod Indices
pub mod RulesExist
