-- Held: the table of held sets follows the owners. Laws: what a turn keeps and passes.
pub mod Held
pub mod Laws
