mod Sifting
mod Moves
pub mod Meaning
