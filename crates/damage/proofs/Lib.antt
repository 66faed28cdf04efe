pub mod Digits
pub mod Flips
pub mod Hearing
