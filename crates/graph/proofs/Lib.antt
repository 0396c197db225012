-- The laws that the functions' proofs share.
pub mod Links
pub mod KeptRows
pub mod Slab
pub mod Sums
pub mod Growing
pub mod Counts
pub mod Sorting
pub mod Inside
pub mod Compress
pub mod Read
pub mod Handed
pub mod Given
pub mod Back
pub mod Whole
pub mod Turn
pub mod Walk
pub mod Reverse
