-- The laws of transfer.
pub mod Behind
pub mod Copy
pub mod Move
pub mod Fill
pub mod Afresh
