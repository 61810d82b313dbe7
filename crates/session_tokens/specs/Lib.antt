pub use Rattle.basis_names.specs.Bases
pub mod Laws
pub mod Lexemes
pub mod Tokens
pub mod Words
