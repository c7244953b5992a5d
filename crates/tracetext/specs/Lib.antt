-- What a reader must believe of texts and verdict lines as C programs write and read them.
pub mod Texts
