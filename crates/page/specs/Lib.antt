-- The state page: its definition, what the code lays, and the theorems about it.
pub mod Page
pub mod LineLaws
pub mod PageLaws
pub mod Parts
pub mod LetterLaws
pub mod PageTheorems
