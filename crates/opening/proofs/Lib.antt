pub mod Names
pub mod Opcodes
pub mod ChangeLists
pub mod Fields
pub mod ReadsBack
pub mod WritesBack
pub mod Applying
