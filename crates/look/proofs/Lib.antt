-- The laws of look.
pub mod Perform
pub mod Places
