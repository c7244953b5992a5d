-- What a reader must believe of texts. Their laws are in proofs/Laws.
pub mod Text
