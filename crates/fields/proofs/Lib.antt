-- The lemmas that the proofs share.
pub mod FromFn
pub mod Filled
