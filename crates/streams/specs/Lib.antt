-- Streams and FromWords hold the definitions; the other files hold laws. Those that rest on the definition of a test throughout a stream, and the
-- worked examples, stand in proofs/.
pub mod Streams
pub mod FromWords
pub mod FitLaws
pub mod UnfitLaws
pub mod PartLaws
pub mod BridgeLaws
pub mod BesideLaws
pub mod EachLaws
pub mod OrderLaws
pub mod AcceptedLaws
pub mod JoinedLaws
pub mod CallLaws
