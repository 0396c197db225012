-- The laws that the proofs of `turns` share.
mod Moves
mod Visits
