-- Saving holds the definitions, CountLaws a law.
pub mod Saving
pub mod CountLaws
