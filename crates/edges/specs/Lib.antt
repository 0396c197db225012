-- The definitions: the link between two nodes, the outcome of each public call, and worked examples.
pub mod Edges
pub mod Passed
pub mod Outcomes
pub mod Cases
