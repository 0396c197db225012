-- The definitions that the contracts of `turns` cite.
pub mod Promises
