-- The laws that the proofs of the bidirectional solver share, and the theorems on its calls: each has one outcome, and demand 3 of what is left.
pub mod Joining
pub mod OneBidirectionalOutcome
pub mod UnreachedInPairs
