-- What a heap is (`Entries`), and what its functions ensure (`Steps`).
pub mod Entries
pub mod Steps
pub mod Cases
