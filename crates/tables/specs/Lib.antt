-- What the contracts of tables cite.
pub mod Shape
pub mod Entry
pub mod Window
