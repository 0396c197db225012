-- What the queue is (`Waiting`), the buffers that hold it (`Heap`), and what its functions ensure (`Promises`).
pub mod Waiting
pub mod Cases
pub mod Heap
pub mod Promises
