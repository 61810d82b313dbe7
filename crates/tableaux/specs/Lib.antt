pub mod NumberedTableaux
pub mod Sizes
