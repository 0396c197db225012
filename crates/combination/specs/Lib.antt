-- The definitions that the contracts of the combination cite.
pub mod Outcomes
pub mod Methods
