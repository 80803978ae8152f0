pub mod Cells
pub mod Linking
pub mod Memory
pub mod Places
pub mod Searches
