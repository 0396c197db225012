-- The laws that the entries' proofs share, and the theorem that each call has one outcome.
pub mod Made
pub mod OneGraphOutcome
pub mod HandedOn
