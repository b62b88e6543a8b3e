-- Spelling and Tasks hold the definitions, Examples the worked examples; the other files hold the laws.
pub mod Spelling
pub mod Tasks
pub mod Examples
pub mod Settling
pub mod WeightLaws
pub mod TaskLaws
pub mod SmallTaskLaws
pub mod CellLaws
pub mod SpellingLaws
pub mod OneWord
