-- What a reader must believe of the calls that write displacements.
pub mod Moves
