-- What the contracts speak of: what a draft holds, and what each of its steps says and leaves.
pub mod Begun
pub mod Drafts
pub mod Posts
pub mod Steps
