-- The definitions that the contracts of `watching` cite.
pub mod Watching
