pub mod View
pub mod Classes
pub mod Hearing
