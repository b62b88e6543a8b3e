-- Finding holds the definitions, Examples the worked examples; the other files hold the laws.
pub mod Finding
pub mod Examples
pub mod BeginsLaws
pub mod FirstLaws
pub mod QuickLaws
pub mod ScanLaws
pub mod CellLaws
