-- What a reader must believe of what sentences speak of.
pub mod Facts
