pub mod Places
pub mod Addresses
pub mod Found
pub mod Lent
