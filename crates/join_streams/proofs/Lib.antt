-- Laws that no contract cites.
pub mod KeptCopyLaws
pub mod KeptJoinedLaws
pub mod KeptJoiningLaws
