-- The bench record of an input, and the example of 01.
pub mod Record
pub mod RecordLaws
pub mod Example
