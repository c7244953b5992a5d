-- What a reader must believe of the judgement of a whole recording. Laws are in proofs/.
pub mod Pass
