pub mod Below
pub mod Division
pub mod Inverses
pub mod Linear
pub mod Multiples
pub mod Numbers
pub mod Register
pub mod Sealed
