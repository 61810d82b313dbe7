pub mod Built
pub mod Elements
pub mod Evaluation
pub mod EvaluationSteps
pub mod Functions
pub mod Laws
pub mod Meaning
pub mod Names
