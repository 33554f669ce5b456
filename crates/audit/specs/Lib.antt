-- What the contracts of audit cite.
pub mod Follows
pub mod Colours
pub mod Verdict
