-- The proofs of the functions, and what several of them use.
pub mod Elements
pub mod Dropping
