-- Laws that no contract cites.
pub mod KeptCheckLaws
pub mod KeptCountingLaws
pub mod KeptPowerLaws
pub mod KeptRowLaws
pub mod KeptTableLaws
pub mod KeptWritingLaws
