pub mod Flags
pub mod Ways
pub mod Lines
