-- What a reader must believe of the lines of a text.
pub mod Lines
