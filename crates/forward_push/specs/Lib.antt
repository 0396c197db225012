-- The definitions that the forward solver's contracts cite.
pub mod Outcomes
