-- The laws that the functions' proofs share, and the theorems about the calls.
pub mod FirstMatch
pub mod Searched
pub mod Answered
pub mod Reading
pub mod Exactly
pub mod OutOfRange
pub mod BuiltRows
pub mod OneEdgeOutcome
