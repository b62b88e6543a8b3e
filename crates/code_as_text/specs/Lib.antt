-- Printed holds what the listing program prints, Examples the worked examples; the other files hold the laws.
pub mod Printed
pub mod Examples
pub mod StatedLaws
pub mod IndexLaws
pub mod CodeLaws
pub mod SmallCodes
pub mod FitLaws
pub mod ListedLaws
pub mod AnswerLaws
pub mod InputLaws
