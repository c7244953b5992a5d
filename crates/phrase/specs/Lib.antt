-- What a reader must believe of what sentences name.
pub mod Phrase
