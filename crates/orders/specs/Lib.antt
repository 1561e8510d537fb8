-- What the contracts speak of: masks, and the two orders.
pub mod Masks
pub mod Parents
pub mod Rows
pub mod ParentsFacts
pub mod Limits
pub mod RowsFacts
