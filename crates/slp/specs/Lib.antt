-- What the contracts of slp cite.
pub mod Numbers
