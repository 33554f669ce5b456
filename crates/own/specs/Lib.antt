-- What the contracts of own cite.
pub mod Own
