-- What a reader must believe of verdict lines read and written by their fields.
pub mod Fields
