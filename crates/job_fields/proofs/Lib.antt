-- The laws that the proofs of `job_fields` share.
pub mod Shapes
