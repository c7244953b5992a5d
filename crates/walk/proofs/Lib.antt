-- Units: the loop of `write_unit`. Parts: a unit in the part of a table that is lent for it. Walks: the loop of `write`. Laws: what is written of
-- words, and of displacements.
mod Units
mod Parts
pub mod Walks
pub mod Laws
