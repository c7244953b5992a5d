-- What a reader must believe of the reply that a kept line tells.
pub mod Kept
