-- The definitions that the crates above share.
pub mod Numbers
pub mod Choice
pub mod Slices
pub mod Tables
