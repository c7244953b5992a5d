-- What a reader must believe of soundness. Its laws are in proofs/Laws.
pub mod Soundness
