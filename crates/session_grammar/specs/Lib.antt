pub use Rattle.session_tokens.specs.Lexemes
pub use Rattle.session_tokens.specs.Tokens
pub use Rattle.session_tokens.specs.Words
pub mod Grammar
pub mod Laws
pub mod ListStates
pub mod ParserSteps
pub mod Parses
