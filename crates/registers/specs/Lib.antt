-- What the contracts speak of: what a register means, and the numbers of its refusals.
pub mod Meaning
pub mod Refusals
