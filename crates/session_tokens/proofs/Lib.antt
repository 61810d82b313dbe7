pub mod LexemesOfTokens
pub mod Numbers
pub mod TokenSteps
pub mod TokensExist
