-- The laws that the functions' proofs share, and the theorems on the square root, which are for whoever builds on it.
mod Squares
mod Digits
mod Halves
mod Rounding
mod Scale
mod Patterns
pub mod Unique
mod Units
mod Means
pub mod Closest
pub mod Examples
