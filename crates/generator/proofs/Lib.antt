-- The laws of a test load, and the theorems about it.
pub mod LoadLaws
pub mod LoadTheorems
