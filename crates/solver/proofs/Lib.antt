-- The laws that the proofs of `solver` share. `Graphs` is also for whoever calls `solve`.
mod Running
pub mod Graphs
