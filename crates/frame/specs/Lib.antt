pub mod Controls
pub mod Contents
pub mod Damage
pub mod Verdicts
pub mod Writing
pub mod Laws
