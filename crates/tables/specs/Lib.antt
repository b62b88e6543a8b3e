-- Tables holds the definitions that the promises cite, Counting and Rows those of counting and writing a row, Examples the worked examples; the other files hold the laws on them.
pub mod Tables
pub mod Counting
pub mod Rows
pub mod Examples
pub mod Shipped
pub mod TableLaws
pub mod SumLaws
pub mod CountingLaws
pub mod CheckLaws
pub mod RowLaws
pub mod WritingLaws
pub mod OtherReach
pub mod PowerLaws
