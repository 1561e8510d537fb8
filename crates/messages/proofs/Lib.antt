-- The lemmas that several proofs share, and the two round trips.
pub mod Accepted
pub mod Apart
pub mod ReadBack
pub mod Written
pub mod WrittenBack
