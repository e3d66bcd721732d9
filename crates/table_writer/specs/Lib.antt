-- The bytes of a state's table, what the table writer answers and leaves in the lent buffer, and both round trips.
pub mod Writing
pub mod Laying
pub mod EntryLaws
pub mod TableFits
pub mod TableLaws
pub mod Outcomes
pub mod RightLaws
pub mod EntryOrder
pub mod ReadThenWrite
pub mod WrittenEntries
pub mod WriteThenRead
pub mod RoundTrips
pub mod Example
