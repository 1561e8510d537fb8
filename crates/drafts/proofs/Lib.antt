-- Lemmas that the proofs share.
mod Apart
mod Arguments
mod Grown
mod Reader
