-- What the specifications of all crates are written with: choices by a test, loops over 1, .., n, arrays counted from 1, lists taken three elements at a time, replies.
pub mod Choice
pub mod Loops
pub mod JoinedLaws
pub mod Arrays
pub mod Threes
pub mod Stores
pub mod Replies
