-- Terms.antt has the terms of the promises, which are in proofs/Promises.antt; Weights, View and LockModes say what a state shows to the theory, and NobodyAs65
-- has the rule with 65 for nobody. Example.antt has the example of document 01, one of version 2, and one of jobs that sleep.
pub mod Terms
pub mod Weights
pub mod View
pub mod LockModes
pub mod NobodyAs65
pub mod Example
