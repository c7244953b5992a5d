-- What a reader must believe of one turn of a pass.
pub mod Turn
