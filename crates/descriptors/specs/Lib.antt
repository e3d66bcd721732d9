-- What a read gives.
pub mod Reading
