-- Ceilings, what a lock weighs, and the key that orders locks.
pub mod Keys
pub mod KeyLaws
pub mod ObjectKeys
pub mod Parts
