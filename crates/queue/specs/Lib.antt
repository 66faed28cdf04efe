pub mod Fifo
pub mod Ring
