-- What a reader must believe of displacements: Displacement, how far each frame moves.
pub mod Displacement
