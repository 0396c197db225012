-- Laws of bits, of marks and of their count. `Marking` and `HowMany` are for whoever marks nodes.
mod Bits
pub mod Marking
pub mod HowMany
