-- The C interface: lent cells that a refusal leaves as they were, one job's entries by start and length.
pub mod Lending
pub mod Entries
