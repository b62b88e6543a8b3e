-- Text holds texts as bytes of ASCII, Line the line of three numbers; Put says what a lent list holds with a text put into it,
-- Writer what is put by a writer, text behind text. What follows of each
-- is in the files that end in Laws: LineLaws says that exactly the allowed lines are read.
pub mod Text
pub mod Writer
pub mod DecimalLaws
pub mod LevelsLaws
pub mod Line
pub mod NumberLaws
pub mod LineLaws
pub mod ReadingLaws
pub mod Put
pub mod PutLaws
pub mod WriterLaws
pub mod PartLaws
pub mod Examples
