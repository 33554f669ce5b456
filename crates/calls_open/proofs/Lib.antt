-- The laws of calls_open.
pub mod Laws
