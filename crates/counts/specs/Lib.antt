-- What the contracts of counts cite.
pub mod Ranges
pub mod Counters
