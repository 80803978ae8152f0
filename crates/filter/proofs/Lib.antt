pub mod Keeping
pub mod Naming
pub mod Octets
pub mod Stepping
pub mod Values
