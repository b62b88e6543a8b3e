-- Joining holds the definitions, Examples the worked examples; the other files hold the laws.
pub mod Joining
pub mod Examples
pub mod CopyLaws
pub mod JoinedLaws
pub mod JoiningLaws
