-- The definitions that the contracts of `job_text` cite, and cases of them.
pub mod Text
mod Cases
pub mod Growth
