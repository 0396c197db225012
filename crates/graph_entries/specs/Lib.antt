-- The one outcome of each public call.
pub mod Outcomes
