pub mod Seen
pub mod Calls
pub mod Shows
pub mod Ready
pub mod Lending
