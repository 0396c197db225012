-- The laws that the proofs of `heap` share. `Under`, `Stores` and `Exchanging` are also for whoever builds on the heap.
pub mod Under
pub mod Stores
pub mod Exchanging
mod Climb
mod Descent
