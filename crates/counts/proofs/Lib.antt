-- The laws of counts.
pub mod Ranges
pub mod Counters
