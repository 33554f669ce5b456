-- What the contracts of calls_look cite.
pub mod Shown
pub mod Begin
