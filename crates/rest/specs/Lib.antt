-- What the contracts of rest cite.
pub mod Rest
