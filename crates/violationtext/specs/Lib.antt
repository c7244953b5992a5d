-- What a reader must believe of violations in words.
pub mod ViolationText
