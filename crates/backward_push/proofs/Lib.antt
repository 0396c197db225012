-- The laws that the proofs of the backward solver share, and the theorems on its calls: each has one outcome, demand 3 of what is left, and what
-- may be due where it stops.
pub mod Reversing
pub mod Reaching
pub mod OneBackwardOutcome
pub mod UnreachedBackward
pub mod StoppedBackward
