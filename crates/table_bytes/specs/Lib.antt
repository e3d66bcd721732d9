-- Table bytes: where their parts stand, their refusals, what is known of accepted ones, and that bytes behind a table change nothing.
pub mod Bytes
pub mod Refusals
pub mod Steps
pub mod AcceptedTable
pub mod Decided
