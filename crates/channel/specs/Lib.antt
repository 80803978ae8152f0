pub mod Cycles
pub mod Faults
pub mod Layers
pub mod Letters
pub mod Queues
pub mod Refused
pub mod Slots
