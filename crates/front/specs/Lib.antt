-- What the contracts of front cite.
pub mod Front
