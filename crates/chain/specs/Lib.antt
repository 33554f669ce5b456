-- What the contracts of chain cite.
pub mod Opened
pub mod Enter
pub mod Length
pub mod Find
pub mod Part
