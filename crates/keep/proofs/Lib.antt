-- The laws of keep.
pub mod Stays
pub mod Laws
