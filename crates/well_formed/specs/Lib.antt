-- What the test of a state gathers.
pub mod Survey
