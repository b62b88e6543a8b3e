-- Statuses holds the definitions.
pub mod Statuses
