-- The laws of put.
pub mod Laws
