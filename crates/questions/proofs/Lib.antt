-- What a question that is not refused may count on.
pub mod Asked
