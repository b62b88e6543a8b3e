-- Carrying holds the definitions; the other files hold the laws.
pub mod Carrying
pub mod HighestBit
pub mod LengthLaws
pub mod CarryingLaws
