-- Bits holds the definitions, Examples worked examples of them; the other files hold the laws.
pub mod Bits
pub mod BitLaws
pub mod WithLaws
pub mod PieceLaws
pub mod ByteLaws
pub mod MovingLaws
pub mod PartsLaws
pub mod LimbLaws
pub mod RoundTrip
pub mod Examples
