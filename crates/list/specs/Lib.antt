-- What the contracts of list cite.
pub mod Begin
pub mod Record
