-- The laws of cut.
pub mod Laws
