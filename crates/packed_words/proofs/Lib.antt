pub mod CutWords
pub mod GrownWords
pub mod MergedCodes
pub mod PackedCodes
