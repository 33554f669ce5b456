-- The laws of storage.
pub mod Place
pub mod Laws
