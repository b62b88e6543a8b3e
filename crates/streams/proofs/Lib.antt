-- Examples holds the worked examples; the other files hold the laws that rest on the definition of a test throughout a stream.
pub mod Examples
pub mod PartLaws
pub mod EachLaws
pub mod LowestFirst
pub mod OrderLaws
pub mod AcceptedLaws
pub mod KeptBridgeLaws
pub mod KeptOrderLaws
pub mod KeptPartLaws
