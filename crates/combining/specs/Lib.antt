-- Combining holds the definitions that the promises cite, CombiningLaws the laws on them.
pub mod Combining
pub mod CombiningLaws
