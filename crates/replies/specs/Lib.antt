-- Replies and Ranges hold the definitions, Examples the worked examples; the other files hold the laws.
pub mod Replies
pub mod Answers
pub mod Ranges
pub mod Examples
pub mod ReplyLaws
pub mod AnswerLaws
pub mod OneAnswer
pub mod LowestLaws
pub mod NumberLaws
pub mod WritingLaws
