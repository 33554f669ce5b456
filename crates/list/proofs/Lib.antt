-- The laws of list.
pub mod Reached
pub mod Laws
