-- The answers to a list of events as one number.
pub mod Mixing
