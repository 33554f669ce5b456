-- The laws of append.
pub mod Ready
pub mod Laws
