-- What the contracts of build cite.
pub mod Share
pub mod Line
pub mod Clone
pub mod Laid
