-- The laws that the proofs of `pushes` and of `solver` share.
mod Moves
mod Spreading
pub mod Slices
pub mod Standing
pub mod Tested
