-- The lines of the bench record.
pub mod Lines
pub mod LineLaws
