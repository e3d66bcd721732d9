-- The words and what is asked of a manager, in the order in which the files build on one another; the theorems are in proofs/. Words alone states demand 3;
-- in its words WriteLocks states change request 1 and what change request 6 makes of a run that finishes, and Arrows change request 7.
pub mod Words
pub mod WriteLocks
pub mod Arrows
pub mod Machine
pub mod Keeps
pub mod Links
pub mod Build
pub mod Modes
pub mod RunOrder
pub mod Lists
pub mod Key
