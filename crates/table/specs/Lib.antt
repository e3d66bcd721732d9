-- What is read from table bytes, and one job's entries; then what is shown of them.
pub mod Reading
pub mod JobEntries
pub mod JobPart
pub mod Declarations
pub mod Fresh
pub mod Decided
pub mod Example
