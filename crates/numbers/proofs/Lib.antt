-- The laws that the crates above share.
pub mod Tests
pub mod Choice
pub mod Order
pub mod Tables
pub mod NoneOf
pub mod Over
pub mod Zeros
pub mod Above
