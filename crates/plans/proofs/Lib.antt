-- Lemmas that the proofs share.
mod Filled
pub mod PlanOrders
pub mod Blank
pub mod Apart
