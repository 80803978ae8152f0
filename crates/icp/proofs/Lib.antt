pub mod Names
pub mod Puts
pub mod Pairs
pub mod Messages
pub mod Changes
