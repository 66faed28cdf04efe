pub mod Numbers
pub mod Cutting
