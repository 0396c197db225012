-- The definitions that the contracts of `starting` cite.
pub mod Promises
