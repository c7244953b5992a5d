-- What a reader must believe of text written into a lent buffer. Its laws are in proofs/Laws.
pub mod Output
