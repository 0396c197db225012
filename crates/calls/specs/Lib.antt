-- The definitions that the contracts of `calls` cite, and those of every solve and query.
pub mod Lent
pub mod Outcomes
pub mod Slices
pub mod Promises
pub mod Cases
