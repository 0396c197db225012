-- The push rules, the words in which theorems speak of them, and the worked cases.
pub mod Ways
pub mod Rules
pub mod Answers
pub mod Pushed
pub mod Reach
pub mod StillDue
pub mod Cases
