-- The laws of reply.
pub mod Text
