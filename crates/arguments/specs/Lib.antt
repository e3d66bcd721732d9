-- A program's arguments: the texts, and numbers in decimal, read from a text.
pub mod Numbers
pub mod Texts
