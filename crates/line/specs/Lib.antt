pub mod Ways
pub mod Bursts
pub mod Lines
