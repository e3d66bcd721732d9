-- A test load from a seed: its definition, and what two parts of one are.
pub mod Load
pub mod LoadTheorems
