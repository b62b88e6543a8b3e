-- Profiles holds the definitions, Examples the worked examples.
pub mod Profiles
pub mod Examples
