-- The laws of kinds.
pub mod Laws
pub mod Sizes
