-- Promises.antt states what is promised of the manager as a whole, in the terms of specs/Terms.antt; the other files prove it.
-- Example.antt shows the answers of the examples.
pub mod Weights
pub mod View
pub mod Frames
pub mod LockModes
pub mod Waking
pub mod Requests
pub mod Sleeping
pub mod Steps
pub mod ReachedStates
pub mod OnlyProcessor
pub mod OldRule
pub mod Nobody
pub mod TableStates
pub mod CertifiedLocks
pub mod Finishing
pub mod LocksApart
pub mod FinishedRuns
pub mod HeldUp
pub mod OneHolder
pub mod Example
pub mod Promises
