-- Quotients holds the definitions, Examples the worked examples; QuotientLaws holds the laws.
pub mod Quotients
pub mod Examples
pub mod QuotientLaws
