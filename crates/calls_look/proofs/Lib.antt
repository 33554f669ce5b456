-- The laws of calls_look.
pub mod Laws
pub mod Parts
