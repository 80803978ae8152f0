pub mod Policies
pub mod Ranks
pub mod Heaps
pub mod Sifts
