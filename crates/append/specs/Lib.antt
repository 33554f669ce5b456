-- What the contracts of append cite.
pub mod Join
