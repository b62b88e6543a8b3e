-- Reading holds the definitions, Examples the worked examples; the other files hold the laws.
pub mod Reading
pub mod Examples
pub mod WalkLaws
pub mod PowerLimbs
pub mod LimitLaws
pub mod SilentLaws
pub mod WordLaws
pub mod TestLaws
pub mod CarrierLaws
pub mod OutputLaws
pub mod ReadingLaws
pub mod NumberLaws
