-- The laws of layout.
pub mod Laws
