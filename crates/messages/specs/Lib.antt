-- What the contracts speak of: what a message says, and how it is read and written.
pub mod Apart
pub mod Arguments
pub mod Calls
pub mod Numbers
pub mod Posts
pub mod Reading
pub mod Refusals
pub mod Said
pub mod Writing
