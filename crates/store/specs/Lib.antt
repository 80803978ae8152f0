pub mod Beginning
pub mod Contents
pub mod Faults
pub mod Indexed
pub mod Laws
pub mod Rows
pub mod Search
