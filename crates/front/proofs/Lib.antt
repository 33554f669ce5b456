-- The laws of front.
pub mod Front
