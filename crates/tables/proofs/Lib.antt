-- The laws of tables.
pub mod Laws
