-- What a reader must believe of refusals in words.
pub mod RefusalText
