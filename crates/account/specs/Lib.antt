pub mod Ledger
pub mod Books
pub mod Line
pub mod Account
pub mod Sample
