-- The theorems on the call: it has one outcome, and what is combined to nothing.
pub mod OneCombined
pub mod Nothing
