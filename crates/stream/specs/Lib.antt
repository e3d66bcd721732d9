-- The bench over an input that comes in parts: what it lays, and that this is the record of the whole input.
pub mod Parts
pub mod Advancing
pub mod AnyParts
pub mod AnySteps
