-- The definitions that the backward solver's contracts cite.
pub mod Lent
pub mod Outcomes
pub mod Slices
pub mod Promises
