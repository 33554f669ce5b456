-- The laws of dup.
pub mod Laws
