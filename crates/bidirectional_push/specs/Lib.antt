-- The definitions that the bidirectional solver's contracts cite.
pub mod Lent
pub mod Outcomes
pub mod Promises
pub mod Cases
