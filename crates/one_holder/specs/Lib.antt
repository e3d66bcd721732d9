-- The locks of one holder, and that the most urgent holder's decide every request.
pub mod OneHolder
pub mod OneHolderLaws
pub mod PassingLaws
pub mod Gathering
