pub mod StepLaws
pub mod TurnLaws
