-- What the contracts of transfer cite.
pub mod Behind
