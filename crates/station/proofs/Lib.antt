pub mod Deeds
pub mod Refused
pub mod Steps
