-- The laws that the proofs of `queue` share. None is for whoever builds on the queue: the promises say what that needs.
mod Taken
mod Offer
mod Filled
mod Settle
mod Best
mod Enter
mod Leave
mod Logic
mod Local
mod Record
mod Thin
mod Buffers
mod ThinAdapt
mod ThinOffer
mod ThinPop
mod Promised
