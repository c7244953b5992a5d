-- How long texts, sentences and answers in words can be: Texts, Sentences, Answers.
mod Texts
mod Sentences
pub mod Answers
