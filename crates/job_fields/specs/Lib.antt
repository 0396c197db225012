-- The definitions that the contracts of `job_fields` cite, and cases of them.
pub mod Fields
pub mod Shape
pub mod Cases
