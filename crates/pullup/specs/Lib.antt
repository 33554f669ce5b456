-- What the contracts of pullup cite.
pub mod Pull
