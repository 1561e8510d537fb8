-- Lemmas that the proofs share.
pub mod PartFacts
pub mod RollFacts
