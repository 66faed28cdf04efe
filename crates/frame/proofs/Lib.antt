pub mod Buffers
pub mod Bursts
pub mod Distance
pub mod Parity
pub mod Records
pub mod Symbols
pub mod Verdicts
