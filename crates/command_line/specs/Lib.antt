-- Lines says what stands in a command line.
pub mod Lines
