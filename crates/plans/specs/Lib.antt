-- What the contracts speak of: the records, where they stand in the bytes, and what the reader says and leaves.
pub mod Layout
pub mod Branch
pub mod Role
pub mod Line
pub mod Set
pub mod Piece
pub mod Plan
pub mod Reader
pub mod Refusals
