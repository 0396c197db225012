-- The laws that the proofs of `job_answer` share, and the theorems on a job's text.
mod Texts
pub mod OneText
pub mod UnreachedInText
