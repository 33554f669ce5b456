-- What the contracts of kinds cite.
pub mod Limits
pub mod Serial
pub mod SlipState
pub mod Refusal
pub mod Outcome
pub mod Sizes
