-- Laws that no contract cites.
pub mod KeptRefusalLaws
pub mod KeptWritingLaws
