-- What a reader must believe of the names of kinds and refusals.
pub mod Names
