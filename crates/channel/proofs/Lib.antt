pub mod Counting
pub mod Queueing
pub mod Slotting
pub mod Waiting
