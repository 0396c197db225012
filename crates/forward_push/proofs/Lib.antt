-- The theorems on the calls of the forward solver: each has one outcome, demand 3 of what is left, and what may be due where it stops.
pub mod OneForwardOutcome
pub mod UnreachedForward
pub mod StoppedForward
