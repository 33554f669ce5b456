-- The laws of follows.
pub mod Laws
