-- Outcomes holds what a person is told of a reply, Examples the worked examples; the other files hold the laws.
pub mod Outcomes
pub mod Examples
pub mod TextLaws
pub mod WordsLaws
pub mod ReplyLaws
pub mod CellsLaws
pub mod SpotLaws
