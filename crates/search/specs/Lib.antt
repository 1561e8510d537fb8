-- What the contracts speak of: searches through numbers.
pub mod Searches
