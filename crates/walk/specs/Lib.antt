-- What a reader must believe of a walk that writes: Laid, what it leaves in a table.
pub mod Laid
