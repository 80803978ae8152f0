pub mod Abc
pub mod Sizes
