-- Code, Formulas, Messages and Stretches hold the definitions, Examples the worked examples; the laws stand in proofs/.
pub mod Code
pub mod Formulas
pub mod Messages
pub mod Examples
pub mod Stretches
