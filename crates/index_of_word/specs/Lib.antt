-- Indexing holds the definitions that the promises cite, Examples the worked examples; the other files hold the laws, from one cell (IndexBehind) to the whole word (Whole, Answers, OneIndex).
pub mod Indexing
pub mod Given
pub mod Examples
pub mod IndexBehind
pub mod Parts
pub mod Levels
pub mod Counts
pub mod Passing
pub mod Spans
pub mod Whole
pub mod Answers
pub mod OneIndex
pub mod OneAnswer
