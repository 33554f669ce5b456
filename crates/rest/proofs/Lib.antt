-- The laws of rest.
pub mod Rest
pub mod Dropped
pub mod Freed
