pub mod Check
pub mod Distance
pub mod Division
pub mod Vectors
