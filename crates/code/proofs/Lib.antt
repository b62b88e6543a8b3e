-- The laws of the code: theorems 1 and 2, how large the counts are, the message length, and the code as a whole.
pub mod Stretches
pub mod Theorem1
pub mod Theorem2
pub mod Sizes
pub mod MessageLaws
pub mod Laws
