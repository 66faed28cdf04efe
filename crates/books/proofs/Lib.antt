pub mod States
pub mod Shown
