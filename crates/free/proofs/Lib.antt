-- The laws of free.
pub mod Laws
