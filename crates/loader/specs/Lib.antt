-- A test load written part by part, as far as memory shows it, and that its parts are the load.
pub mod Loading
pub mod LoadingLaws
pub mod EndLaws
