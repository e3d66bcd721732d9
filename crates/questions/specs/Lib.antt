-- The questions: what each answers, and the paper's numbers of the answers.
pub mod Answers
pub mod Questions
