-- What is shown of the rule.
pub mod GrantingTheorems
pub mod ConflictLaws
mod Searching
