-- The laws that the proofs of `starting` share.
mod Sources
mod Starting
