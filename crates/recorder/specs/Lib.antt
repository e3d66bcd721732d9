-- The record written part by part, as far as memory shows it.
pub mod Recording
pub mod RecordingLaws
