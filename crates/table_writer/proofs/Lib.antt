pub mod LaidLaws
pub mod TableLaid
