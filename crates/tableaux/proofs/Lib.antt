pub mod Codes
pub mod CodesInOrder
pub mod Insertions
pub mod Kept
pub mod LatticeLists
pub mod Restricting
pub mod RowsInTurn
pub mod Steps
