pub mod Blocks
pub mod Padding
pub mod Vectors
