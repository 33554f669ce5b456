-- What the contracts of keep cite.
pub mod Shorten
