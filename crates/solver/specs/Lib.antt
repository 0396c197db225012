-- The definitions that the contracts of `solver` cite.
pub mod Promises
