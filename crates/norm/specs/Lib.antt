-- The definitions: the square root, when a number is as near to it as another, the sum of squares; and what the integer functions ensure.
pub mod SquareRoot
pub mod AsNear
pub mod Norm
pub mod Steps
