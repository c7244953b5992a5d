-- What a reader must believe of a call's refusal in words.
pub mod RefusalReport
