-- The rules, as definitions: what there is, the words of the rules, what a call may look at, its checks, its answer and its change.
pub mod Setup
pub mod Words
pub mod Numbers
pub mod Answers
pub mod Views
pub mod Rows
pub mod Choices
pub mod Calls
pub mod Runs
pub mod Conditions
pub mod Changes
pub mod Reasons
pub mod Promises
pub mod Isolation
pub mod Sold
pub mod Marked
