-- Events in a well-formed state: the rules of the nine kinds, which leave a well-formed state, and the paper's numbers of the answers, also packed into one.
pub mod Answers
pub mod Packing
pub mod Events
pub mod Keeping
