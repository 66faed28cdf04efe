pub mod Shown
pub mod Troubles
pub mod Sites
