-- Lemmas that the proofs share, here and in the crates of the registers.
pub mod BitFacts
pub mod PostingFacts
