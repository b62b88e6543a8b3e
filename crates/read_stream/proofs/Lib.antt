-- Laws that no contract cites.
pub mod KeptReadingLaws
pub mod KeptSilentLaws
pub mod KeptTestLaws
pub mod KeptWalkLaws
