-- The laws of release.
pub mod Laws
pub mod Behind
