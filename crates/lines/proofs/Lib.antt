-- The lemmas that the proofs of several steps share.
mod Laid
