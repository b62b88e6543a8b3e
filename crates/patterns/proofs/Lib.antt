-- The laws of the patterns, the walk and the streams.
pub mod WalkLaws
pub mod OccursLaws
pub mod FreeLaws
pub mod JoinLaws
pub mod StreamLaws
