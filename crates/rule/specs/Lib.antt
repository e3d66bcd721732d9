-- The rule of 1PI-RWPCP: who is granted a lock, who is named and why, who is woken.
pub mod Granting
pub mod GrantingTheorems
pub mod Decided
pub mod WakeLaws
pub mod Parts
