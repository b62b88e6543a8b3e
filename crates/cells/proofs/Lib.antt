-- Laws that no contract cites.
pub mod KeptQuickLaws
pub mod KeptScanLaws
