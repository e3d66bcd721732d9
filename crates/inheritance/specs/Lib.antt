-- Inherited ranks, and the job that a processor runs by them.
pub mod Running
pub mod RunningLaws
pub mod Inheriting
pub mod Parts
