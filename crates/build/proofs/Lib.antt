-- The laws of build.
pub mod Laws
pub mod Forward
pub mod Line
pub mod Clone
pub mod Laid
