-- What is shown of a release.
pub mod Releasing
