-- Laws that no contract cites.
pub mod KeptNumberLaws
pub mod KeptReadingLaws
