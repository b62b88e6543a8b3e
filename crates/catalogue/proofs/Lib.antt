-- The laws of the list: each of the forty rows is right.
pub mod RowsRight
pub mod KeptRowsRight
pub mod KeptRatingLaws
