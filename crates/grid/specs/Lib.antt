-- What the contracts speak of: what a grid's cells mean.
pub mod Grid
