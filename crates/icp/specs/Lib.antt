pub mod Numbers
pub mod Opcodes
pub mod Faults
pub mod Contents
pub mod Names
pub mod Types
pub mod Writing
