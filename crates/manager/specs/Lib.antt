-- The lock manager: what an event does, and that it leaves a well-formed state where it found one; then events one after the other.
pub mod Step
pub mod Keeping
pub mod EventList
