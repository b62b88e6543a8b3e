-- Catalogue, Rating and RowsRight hold the definitions, Examples the worked examples; the other files hold the laws.
pub mod Catalogue
pub mod Given
pub mod Rating
pub mod Examples
pub mod RatingLaws
pub mod RowsRight
pub mod OneAnswer
