-- What the contracts speak of: checks, and the place that a refusal tells.
pub mod Checks
pub mod Place
