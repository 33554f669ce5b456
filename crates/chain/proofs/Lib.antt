-- The laws of chain.
pub mod Links
pub mod Entry
pub mod Spots
pub mod Parts
