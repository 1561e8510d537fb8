-- What the contracts speak of: the words and the line.
pub mod Word
pub mod Line
