pub mod Reading
pub mod Types
pub mod Laws
