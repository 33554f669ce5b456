-- The laws of pack.
pub mod Laws
