pub mod Positions
pub mod Counters
pub mod Summaries
pub mod Laws
