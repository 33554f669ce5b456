-- What the contracts of look cite.
pub mod Place
pub mod Show
