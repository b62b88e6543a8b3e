-- Pattern, Occurs, Walk and Stream hold the definitions, Examples the worked examples; the laws stand in proofs/.
pub mod Pattern
pub mod Occurs
pub mod Walk
pub mod Stream
pub mod Examples
