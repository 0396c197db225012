-- The laws that the proofs of `job_text` share.
pub mod Growing
mod Numerals
pub mod NodeLines
