-- Laws that no contract cites.
pub mod KeptAnswers
pub mod KeptLevels
