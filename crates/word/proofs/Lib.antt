-- The laws of word.
pub mod Laws
