-- What the contracts speak of: what the records of a part mean, where the parts of a roll are, and who is posted.
pub mod Part
pub mod Roll
pub mod Inside
