-- The laws of own.
pub mod Own
