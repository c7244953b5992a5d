-- What a reader must believe of verdict lines. Their laws are in proofs/Laws.
pub mod Line
