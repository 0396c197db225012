-- The definitions that the contracts of `job_answer` cite, and cases of them.
pub mod Printed
pub mod Promises
mod Cases
