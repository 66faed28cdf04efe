pub mod Pairs
pub mod Readers
pub mod Lending
