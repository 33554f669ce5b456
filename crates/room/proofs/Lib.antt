-- The laws of room.
pub mod Free
