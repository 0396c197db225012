-- The definitions that the contracts of `pushes` cite, and those of `solver`.
pub mod States
pub mod Buffers
pub mod Meant
pub mod Promises
