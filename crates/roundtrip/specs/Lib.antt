-- The claims that reading and writing undo each other, as types. Their proofs are in proofs/.
pub mod Recordings
pub mod Lines
