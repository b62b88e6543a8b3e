-- Every, Same, Listing and Inverse hold the definitions, Examples the worked examples; the other files hold laws, and proofs/ the rest of them.
pub mod Every
pub mod Same
pub mod Listing
pub mod Examples
pub mod Sums
pub mod Inverse
pub mod EachLevel
pub mod EveryLaws
pub mod SameLaws
