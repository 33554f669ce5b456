-- The laws of gather.
pub mod Laws
