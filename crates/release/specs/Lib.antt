-- What the contracts of release cite.
pub mod Release
pub mod Hang
