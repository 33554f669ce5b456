-- What the contracts of gather cite.
pub mod Sum
