-- What a reader must believe of the length of answers in words; that they fit is proved in proofs/Answers.
pub mod Fits
