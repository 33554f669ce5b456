-- The laws of pullup.
pub mod Plan
pub mod Laws
