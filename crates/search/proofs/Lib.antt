-- Lemmas about searches and sums, for every crate that searches.
pub mod Searches
pub mod Sums
