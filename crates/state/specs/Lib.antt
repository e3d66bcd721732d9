-- The state: what it says and how it changes, which states are well formed, and what a well-formed state says of each job and object.
pub mod State
pub mod Weights
pub mod WellFormed
pub mod Clauses
pub mod Modes
pub mod Marks
pub mod Facts
pub mod WeightLaws
pub mod WellFormedFacts
pub mod Changes
pub mod Holders
pub mod Keeping
pub mod Lent
pub mod RefusalNumbers
