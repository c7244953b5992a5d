-- What a reader must believe of sentences.
pub mod Sentence
