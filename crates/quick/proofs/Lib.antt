-- Laws of the quick check.
pub mod Turn
