-- The laws that the proofs of the public calls share.
pub mod Counting
pub mod Degrees
pub mod Vectors
pub mod Leaving
pub mod OneOutcome
pub mod Lengths
pub mod Fits
pub mod Asked
pub mod Directed
pub mod Links
pub mod Done
pub mod UnreachedInCalls
pub mod StoppedInCalls
pub mod Queries
