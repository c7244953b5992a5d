-- What a reader must believe of frames and refusals. Their laws are in proofs/Laws.
pub mod Limits
pub mod Frame
pub mod Refusal
