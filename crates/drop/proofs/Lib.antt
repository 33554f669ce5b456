-- The laws of drop.
pub mod Laws
