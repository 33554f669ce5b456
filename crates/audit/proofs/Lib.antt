-- The laws of audit.
pub mod Follows
pub mod Colours
pub mod Verdict
pub mod Laws
