-- The theorems, in the order in which they build on one another: Lists has those of a manager and any list of events. ArrowExample draws an arrow.
pub mod Machine
pub mod Keeps
pub mod Links
pub mod GrantsFirst
pub mod Demand
pub mod Build
pub mod Modes
pub mod HeldModes
pub mod WritesStay
pub mod Certified
pub mod ConflictLaws
pub mod LastLocks
pub mod RunOrder
pub mod Lists
pub mod KeyLaws
pub mod ArrowExample
