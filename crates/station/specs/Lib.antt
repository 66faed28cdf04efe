pub mod Refusals
pub mod Noted
pub mod Shown
