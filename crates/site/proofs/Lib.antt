pub mod Ways
pub mod Addresses
pub mod Events
pub mod Steps
pub mod Fetched
pub mod Accounts
pub mod Turns
pub mod Placed
