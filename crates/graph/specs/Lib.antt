-- The definitions: links and rows of a graph, and what the functions ask and ensure.
pub mod Rows
pub mod Store
pub mod Cases
