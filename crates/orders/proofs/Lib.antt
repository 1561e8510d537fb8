-- Lemmas that the proofs share.
mod Below
